-- Laws about the definitions of specs/, for this crate's functions and for the crates above. Assumes nothing.
pub mod Spelling
pub mod Field
pub mod Fields
pub mod Decimals
pub mod Back
pub mod Cases
