-- Laws of the rank of a fact.
pub mod Faults
