-- Rules in parts, what no rule tells apart, that the last command is enough to measure from, the history after a slot, and worked examples.
pub mod Tests
pub mod Parts
pub mod Alike
pub mod Every
pub mod Follows
pub mod Examples
