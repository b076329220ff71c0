-- Our own machine's tapes.
pub mod Own
