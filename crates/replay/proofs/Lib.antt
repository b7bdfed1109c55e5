pub mod Stack
pub mod Going
pub mod Stepping
pub mod Running
pub mod Answers
pub mod Outcomes
pub mod Cases
