-- Laws of a text, for this crate's proofs.
pub mod Laws
pub mod Examples
