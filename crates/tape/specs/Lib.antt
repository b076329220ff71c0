-- Document 02, (ii): bus tapes.
pub mod Writing
pub mod Reading
pub mod Laws
