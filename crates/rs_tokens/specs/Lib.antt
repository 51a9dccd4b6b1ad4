pub mod Blanks
pub mod Place
pub mod Reading
pub mod Tables
pub mod Tokens
