-- Whether a model is valid and its table has room. Assumes nothing.
pub mod Fits
