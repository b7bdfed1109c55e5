-- Lines as bytes. Assumes nothing.
pub mod Bytes
