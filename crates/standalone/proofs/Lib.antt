-- Worked examples, and that the contracts speak of whole answers.
pub mod Examples
pub mod Whole
