-- Reading a model text: how a reading ends, the whole text, and what an accepted record says. Assumes nothing.
pub mod Reading
pub mod Text
pub mod Says
pub mod Cases
