-- What the test of one place computes.
pub mod AtPlace
