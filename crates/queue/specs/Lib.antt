-- The queue of accepted requests (document 01, "A service slot").
pub mod Places
pub mod Oldest
pub mod Memory
