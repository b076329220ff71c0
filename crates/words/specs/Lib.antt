-- Document 01, "Register words".
pub mod Words
