-- What the numbers show of a record, and worked examples.
pub mod Laws
pub mod Examples
