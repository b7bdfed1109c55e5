pub mod Finding
pub mod Matrices
pub mod Rules
pub mod Steps
pub mod Reasons
pub mod Answers
