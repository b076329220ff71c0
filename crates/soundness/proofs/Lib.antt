-- A slot and an accepted request keep a record sound.
pub mod Plans
pub mod Past
pub mod Queue
pub mod Slot
