-- One record of a tape as a judge takes it.
pub mod Taken
