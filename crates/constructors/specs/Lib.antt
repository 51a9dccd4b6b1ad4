pub mod Answers
pub mod Constructors
pub mod FieldNames
pub mod FunctionScope
pub mod Laws
