-- What keeps a terminal going.
pub mod Calls
pub mod Progress
