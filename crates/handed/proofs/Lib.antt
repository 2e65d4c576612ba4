-- Laws of what a call asks first.
-- Trying: the code walks once and tests each point as it marks it. Gathering, Meeting: it gathers the box of the ring and meets the present place on the way. Handing: `handed_decides`, `handed_of` passes exactly when the work space is usable.
pub mod Trying
pub mod Meeting
pub mod Gathering
pub mod Handing
