pub mod Answers
pub mod DeclaredTypes
pub mod Declaring
