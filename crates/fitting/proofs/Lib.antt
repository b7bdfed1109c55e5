-- Laws of the tests of a model and a table.
pub mod Tested
