-- A run of a script.
pub mod Run
