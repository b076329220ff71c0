-- What makes each command legal by the stamps.
pub mod Hold
