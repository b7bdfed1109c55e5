-- The line of a refusal, as bytes. Assumes nothing.
pub mod Refusal
