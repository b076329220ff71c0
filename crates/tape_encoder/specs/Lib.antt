-- What the encoder puts on a tape.
pub mod Encoder
