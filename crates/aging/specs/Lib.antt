-- How the code makes the past after a command.
pub mod Noted
