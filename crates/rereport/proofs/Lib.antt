-- Laws of the output.
pub mod Small
pub mod Cases
