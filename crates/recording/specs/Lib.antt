-- A tape on its way to standard output.
pub mod Recording
