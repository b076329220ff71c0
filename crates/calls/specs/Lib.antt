-- What playing a call gives.
pub mod Played
