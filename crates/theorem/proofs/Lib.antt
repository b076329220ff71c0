-- The proof of the third condition: the invariant and its four parts, what every call does to each, and the theorem.
pub mod Invariant
pub mod Calls
pub mod Plans
pub mod Order
pub mod Timing
pub mod Start
pub mod Refreshes
pub mod Ranges
pub mod Standing
pub mod Requests
pub mod Slot
pub mod Batch
pub mod Third
