-- The laws of the packing, and worked examples.
pub mod Laws
pub mod Limits
pub mod Examples
