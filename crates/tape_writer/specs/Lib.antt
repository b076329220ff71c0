-- The writer of tapes.
pub mod Writer
pub mod Passes
pub mod Laws
