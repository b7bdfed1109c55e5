-- What a line does to the model as far as it is read. Assumes nothing.
pub mod Draft
pub mod Lines
pub mod Written
