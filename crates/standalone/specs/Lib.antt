-- Document 01, "Numbers given back": the address map on its own.
pub mod Standalone
pub mod Answers
