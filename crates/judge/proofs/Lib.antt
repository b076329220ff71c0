-- What the judge keeps as it goes through a tape, and what its answers mean.
pub mod Along
pub mod Refusals
pub mod Laws
pub mod Examples
