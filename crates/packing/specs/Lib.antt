-- Document 02, (i): commands and reports as words of 64 bits.
pub mod Packing
pub mod Limits
pub mod Laws
