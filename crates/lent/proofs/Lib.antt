-- The laws of a lent model. Assumes nothing.
pub mod Parts
pub mod Packed
