-- A text, piece by piece.
pub mod Spelling
