-- Laws about the definitions of specs/. Assumes nothing.
pub mod Spelled
pub mod Behind
pub mod Found
pub mod Faults
