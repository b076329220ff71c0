-- What makes each command legal, as the code tests it.
pub mod Hold
