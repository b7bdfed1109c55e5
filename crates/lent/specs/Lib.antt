-- A model as it is lent: the record and the product that its bytes are. Assumes nothing.
pub mod Lending
