pub mod Unfold
pub mod Written
pub mod Outcome
