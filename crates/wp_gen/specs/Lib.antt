pub mod Count
pub mod Limits
pub mod Marks
pub mod Paths
pub mod Reached
pub mod Setting
