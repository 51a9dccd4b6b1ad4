pub mod Certificate
pub mod Columns
