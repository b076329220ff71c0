-- Document 01, "Address and cell".
pub mod Map
pub mod Memory
