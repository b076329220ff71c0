-- The rule that a command breaks first.
pub mod Violation
pub mod Walk
