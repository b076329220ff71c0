-- The reader of tapes, as the code has it.
pub mod Reader
