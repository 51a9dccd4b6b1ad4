pub mod ProofFileForm
pub mod ProofKeys
pub mod ProofTextFile
pub mod ProofTextLaws
pub mod ProofTextLines
pub mod ProofTextReads
pub mod ProofTextRules
pub mod ProofTextWords
