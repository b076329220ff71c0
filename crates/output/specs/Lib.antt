-- The bytes that wait.
pub mod Waiting
