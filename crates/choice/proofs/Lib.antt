-- A slot's action and Must run.
pub mod Laws
