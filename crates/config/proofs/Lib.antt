-- Laws of the register words that callers use in place of the definitions' text, and worked examples.
pub mod Laws
pub mod Examples
