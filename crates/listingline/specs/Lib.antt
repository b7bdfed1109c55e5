-- What a line of a listing says. Assumes nothing.
pub mod Line
