pub mod Accepting
pub mod Declaration
