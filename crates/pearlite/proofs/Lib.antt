pub mod Asked
pub mod Finding
mod Leaves
mod PartLists
pub mod Serving
pub mod SourceLines
mod Terms
