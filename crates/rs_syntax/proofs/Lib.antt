pub mod Asked
pub mod Attributed
pub mod Families
pub mod Finding
mod Leaves
pub mod Making
pub mod Whole
pub mod Words
