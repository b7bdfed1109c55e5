pub mod Search
pub mod Answers
