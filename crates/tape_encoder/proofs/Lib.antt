-- The records of a slot, and how they are stored.
pub mod Slots
pub mod Stores
