pub mod Programs
pub mod Sample
