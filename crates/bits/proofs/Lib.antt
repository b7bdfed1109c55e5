pub mod Bit
pub mod Set
pub mod Lowest
pub mod Some
pub mod Matrix
pub mod Rows
pub mod Image
