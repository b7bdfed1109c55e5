-- When a line of a model text is refused, and by which number. Assumes nothing.
pub mod Limits
