-- The listing of a table, as bytes. Assumes nothing.
pub mod Listing
pub mod Writing
