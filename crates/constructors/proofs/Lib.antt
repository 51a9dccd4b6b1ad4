pub mod Accepted
pub mod Declaration
pub mod Numbers
