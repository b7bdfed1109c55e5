pub mod Recheck
pub mod Tests
pub mod Rows
