-- How the code goes through the rules.
pub mod Rules
