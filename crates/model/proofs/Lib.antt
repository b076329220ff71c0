-- Closed runs of the claim, computed; a call of many slots beside its slots; and requests beside the two calls that document 01 had.
pub mod ClosedRun
pub mod ClosedSdram
pub mod Along
pub mod TwoCalls
