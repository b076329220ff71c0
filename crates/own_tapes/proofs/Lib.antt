-- Our own machine's tapes.
pub mod Bus
pub mod Own
