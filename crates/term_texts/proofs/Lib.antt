pub mod TermChoice
pub mod TermLaw
pub mod TokenChoice
