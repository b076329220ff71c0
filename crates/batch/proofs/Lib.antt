-- What the loop keeps.
pub mod Loop
