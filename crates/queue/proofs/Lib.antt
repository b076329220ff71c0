-- Laws of the queue's definitions.
pub mod Array
pub mod Shifting
pub mod Walks
pub mod Order
pub mod Each
pub mod Tidy
pub mod Oldest
pub mod Consistent
pub mod Memory
pub mod Numbers
pub mod Examples
