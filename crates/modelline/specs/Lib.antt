-- What a line of a model text says. Assumes nothing.
pub mod Line
