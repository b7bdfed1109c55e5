-- Laws of reading a listing.
pub mod Filled
pub mod Cases
