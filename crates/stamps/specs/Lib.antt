-- The past commands as the slots of the last ones.
pub mod Stamps
