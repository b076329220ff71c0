-- Document 01, "The third condition in full".
pub mod Sdram
pub mod Flat
pub mod World
pub mod Condition
pub mod Along
