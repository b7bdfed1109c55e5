-- Laws about the definitions of specs/. Assumes nothing.
pub mod Stores
pub mod Laid
