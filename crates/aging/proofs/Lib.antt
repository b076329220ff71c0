-- The past after each command.
pub mod Slot
pub mod Loop
