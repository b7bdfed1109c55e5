-- What `pdcheck` prints, as bytes. Assumes nothing.
pub mod Output
pub mod Told
