-- Worked examples of the lines.
pub mod Examples
