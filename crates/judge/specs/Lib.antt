-- The judge of tapes.
pub mod Judge
pub mod Laws
pub mod Halted
pub mod Verdict
