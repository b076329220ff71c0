-- Document 01, "Marked examples".
pub mod Run
pub mod Table
