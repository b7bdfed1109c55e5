-- Laws about the definitions of specs/, for this crate's functions and for the crates above. Assumes nothing.
pub mod Lists
pub mod Split
pub mod Stops
pub mod Bytes
pub mod Puts
