pub mod Tried
pub mod Explained
pub mod Falls
