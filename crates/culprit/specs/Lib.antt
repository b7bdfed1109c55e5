pub mod First
pub mod Culprit
