pub mod CopyDecided
pub mod Laws
pub mod Plain
pub mod Runs
pub mod Unrun
