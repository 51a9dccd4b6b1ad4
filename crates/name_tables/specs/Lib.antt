pub mod NameTables
pub mod Statements
