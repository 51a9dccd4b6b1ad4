pub mod Terminals
pub mod Classes
pub mod Nonterminals
pub mod SourceGrammar
pub mod LeftOut
pub mod Actions
pub mod Faults
pub mod Statements
