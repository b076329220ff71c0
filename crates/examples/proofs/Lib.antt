-- The claim about the table.
pub mod Claim
