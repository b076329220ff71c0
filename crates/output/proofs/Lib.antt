-- The bytes that wait.
pub mod Laws
