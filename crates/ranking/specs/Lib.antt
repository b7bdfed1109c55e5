-- The rank of a fact, or why it is refused. Assumes nothing.
pub mod Rank
