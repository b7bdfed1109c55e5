pub mod Steps
pub mod Events
pub mod Rows
