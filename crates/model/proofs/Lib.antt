pub mod Steps
pub mod Answers
pub mod Valid
pub mod Bounds
pub mod Tested
pub mod Counted
