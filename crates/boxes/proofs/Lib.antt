-- Laws of boxes: as an order with joins, of lists of points, of acts, of stores.
pub mod Sizes
pub mod Boxes
pub mod InLine
pub mod Points
pub mod Rings
pub mod Keeping
pub mod Stores
pub mod Acted
pub mod Beside
pub mod OnWords
pub mod AtHand
pub mod Examples
