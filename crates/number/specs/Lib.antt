-- REPLAY.md, "Script": its numbers.
pub mod Number
