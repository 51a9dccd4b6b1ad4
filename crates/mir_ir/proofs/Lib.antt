pub mod Declared
pub mod Paths
pub mod Taking
