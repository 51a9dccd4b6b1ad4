pub mod Faults
pub mod QuotedWords
pub mod Texts
pub mod TokenKinds
pub mod Words
