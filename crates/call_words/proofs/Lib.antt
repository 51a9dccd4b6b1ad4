pub mod AskedLemmas
pub mod FoundLemmas
pub mod PlainCalls
pub mod PlainWords
