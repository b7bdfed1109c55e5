-- What numbers the bytes of a text are, and how numbers are written. Assumes nothing.
pub mod Number
pub mod Field
pub mod Digits
