-- Laws of the lines of a violation.
pub mod Lines
pub mod Runs
