pub mod Answers
pub mod Laws
pub mod Makers
pub mod PatternTyping
