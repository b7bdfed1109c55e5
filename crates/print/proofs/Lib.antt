-- Laws of the bytes of a line.
pub mod Puts
