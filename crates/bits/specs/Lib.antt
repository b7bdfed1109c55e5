pub mod Bit
pub mod Matrix
pub mod Ones
