-- Laws of refusals.
pub mod Reading
