pub mod Words
pub mod Events
pub mod Built
pub mod Marks
pub mod Laws
pub mod Rows
