-- What the code tests.
pub mod Tests
