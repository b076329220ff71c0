-- Every call keeps a record sound; the initialisation ends; a choice is made; a backlog is worked off.
pub mod Distances
pub mod Action
pub mod Start
pub mod Refresh
pub mod Machine
pub mod Calls
pub mod Backlog
pub mod Going
pub mod Examples
