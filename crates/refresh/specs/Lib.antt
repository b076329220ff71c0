-- The refresh counters and their urgency (document 01, "Start", "A service slot").
pub mod Counting
pub mod Urgency
