pub mod Left
pub mod Sizes
