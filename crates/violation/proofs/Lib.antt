-- The walk over rules and banks.
pub mod Grid
pub mod Steps
