-- The tape's laws and examples.
pub mod Examples
pub mod Pieces
pub mod Records
pub mod Steps
pub mod Formed
pub mod Tapes
