-- Where a text is parted in a model and a listing. Assumes nothing.
pub mod Part
pub mod Search
