-- Document 01, "Numbers given back".
pub mod Refused
