-- Many slots on the machine's parts.
pub mod Run
