-- The ages slot by slot, their agreement with the history, what the code reads off the record, and worked examples.
pub mod Slot
pub mod Agree
pub mod Record
pub mod Examples
