-- REPLAY.md, "Script".
pub mod Line
