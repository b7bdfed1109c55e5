-- A violation with its trace, as bytes. Assumes nothing.
pub mod Words
pub mod Bytes
