pub mod Farkas
pub mod Steps
pub mod Sums
