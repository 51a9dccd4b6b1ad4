pub mod ExprDrops
pub mod TermDrops
