pub mod Widening
