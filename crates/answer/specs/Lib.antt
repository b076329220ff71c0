-- REPLAY.md, "Output".
pub mod Output
