-- Soundness as facts, what the numbers say, that a setting is the whole answer of a configuration, the code's way through a slot, the request beside the two calls that it replaced, and worked
-- examples.
pub mod Laws
pub mod Examples
pub mod Sound
pub mod Batch
pub mod TwoCalls
pub mod Whole
pub mod Parts
