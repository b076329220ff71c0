-- The bytes that a tape takes.
pub mod Laws
