-- The writer's passes, outcomes and laws.
pub mod Passes
pub mod Outcomes
pub mod Laws
pub mod Examples
