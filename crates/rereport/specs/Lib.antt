-- What `pdrecheck` prints, as bytes. Assumes nothing.
pub mod Output
pub mod Heard
