pub mod First
pub mod Asked
pub mod Found
