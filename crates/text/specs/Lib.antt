-- The pieces of a text between separators, and what it is to put numbers into lent memory. Assumes nothing.
pub mod Split
pub mod Put
