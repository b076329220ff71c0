-- The past commands as ages.
pub mod Ages
