-- What reading a listing means. Assumes nothing.
pub mod Reading
