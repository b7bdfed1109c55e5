-- Laws of the two parts of a text.
pub mod Place
pub mod Parts
