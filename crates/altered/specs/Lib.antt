-- Work spaces that others altered: the forest that their words hold, and what a step then does.
pub mod OwnForest
pub mod Altered
