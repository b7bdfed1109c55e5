pub mod Unfolds
pub mod Ranked
pub mod Write
pub mod Outcome
