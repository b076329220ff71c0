-- The stream of words.
pub mod Stream
