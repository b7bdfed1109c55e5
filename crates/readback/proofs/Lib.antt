-- That what is written reads back.
pub mod Back
pub mod Again
pub mod Round
