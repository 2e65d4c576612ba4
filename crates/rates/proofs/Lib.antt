-- Laws of rates and charges.
-- Charging: `charges`, `only_charges`: the two numbers satisfy the paper's equation, and no others do. Digits: `rate_of_all`.
pub mod Charging
pub mod Digits
pub mod Examples
