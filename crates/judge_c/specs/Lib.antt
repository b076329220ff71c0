-- The judge's answer as one word.
pub mod Word
pub mod Laws
