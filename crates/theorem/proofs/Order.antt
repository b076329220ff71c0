-- Order and memory: what is queued, what the cells hold, and what a slot does to both.
pub mod Cells
pub mod Queue
pub mod Slot
