pub mod Model
pub mod Answers
pub mod Valid
pub mod Cases
