-- Laws of the address map that callers use in place of its text, and worked examples.
pub mod Laws
pub mod Examples
