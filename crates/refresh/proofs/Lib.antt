-- Laws of the levels and of the counters: callers use these, never the definitions' text.
pub mod Levels
pub mod Counts
pub mod Examples
