-- What reading a whole tape gives.
pub mod Scan
