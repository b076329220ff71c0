-- What the code stores, and its agreement with the plain SDRAM's history.
pub mod Noted
pub mod Agree
