-- Refresh in time: what is left of the distances, of an action, and of an interval.
pub mod Distances
pub mod Actions
pub mod Service
