-- The decoder of records, as the code has it.
pub mod Decoder
pub mod Shapes
