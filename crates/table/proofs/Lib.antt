pub mod Bytes
pub mod Cells
pub mod Places
pub mod Store
pub mod LaidOut
pub mod ReadBack
