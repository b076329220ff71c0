-- The contents of a tape from a place on, and worked examples.
pub mod Scans
pub mod Examples
