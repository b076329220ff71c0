-- The parts of the word.
pub mod Words
