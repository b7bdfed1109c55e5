-- Laws of what is put, and of the listing.
pub mod Bytes
pub mod Whole
pub mod Front
pub mod Digits
