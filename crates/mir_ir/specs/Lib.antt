pub mod Body
pub mod Callees
pub mod Declares
pub mod Acts
pub mod WellFormed
pub mod Layout
pub mod Names
pub mod Paths
