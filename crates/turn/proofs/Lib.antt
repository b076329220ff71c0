-- The code's way through a slot is the slot.
pub mod Laws
