-- The machine and the calls on it (document 01, "Numbers given back", "Start", "A service slot").
pub mod Machine
pub mod Answers
pub mod Sound
pub mod Calls
pub mod Batch
