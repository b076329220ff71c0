-- What the device allows (document 01, "Commands and their distances").
pub mod View
pub mod Rules
pub mod Shared
pub mod History
