pub mod Digits
pub mod GivenTokens
pub mod KindLemmas
pub mod TokenCounts
pub mod TokenLists
pub mod WordLemmas
pub mod WordLists
pub mod WordSteps
