-- What every line of a text has: a word that it begins with, and numbers behind it; and what is wrong with a text. Assumes nothing.
pub mod Line
pub mod Words
pub mod Fault
