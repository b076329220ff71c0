-- The action's soundness as facts; worked examples of the plans and of the choice.
pub mod Sound
pub mod Examples
