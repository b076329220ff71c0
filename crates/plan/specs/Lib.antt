-- Document 01, "Start" and "A service slot".
pub mod Actions
pub mod Plan
pub mod Choice
pub mod Slot
pub mod Completion
