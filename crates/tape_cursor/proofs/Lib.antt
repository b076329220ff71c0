-- Each kind of record.
pub mod Records
