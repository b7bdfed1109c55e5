-- Laws of the lines of a listing.
pub mod Steps
pub mod Lines
pub mod Refusals
