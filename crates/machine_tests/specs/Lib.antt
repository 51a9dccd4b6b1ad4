pub mod Run
pub mod Walked
