-- Laws about the definitions of specs/. Assumes nothing.
pub mod Turns
pub mod Leaves
pub mod Rows
pub mod Good
pub mod Steps
pub mod Accepted
pub mod Cases
