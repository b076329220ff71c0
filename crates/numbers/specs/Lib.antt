-- Soundness, and the numbers that a machine's parts decide.
pub mod Sound
pub mod Numbers
