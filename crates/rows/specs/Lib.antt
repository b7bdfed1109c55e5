-- What the lines of a listing do. Assumes nothing.
pub mod State
pub mod Lines
