-- A slot's plan carried out, over a view of the past.
pub mod Serve
