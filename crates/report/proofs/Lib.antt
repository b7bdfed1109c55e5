-- Laws of the output.
pub mod Answer
