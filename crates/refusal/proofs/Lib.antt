-- Laws of the numbers that callers use.
pub mod Laws
