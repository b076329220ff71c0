-- One slot on the machine's parts.
pub mod Parts
