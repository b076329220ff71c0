-- What the tests say.
pub mod Verdict
