pub mod Alone
pub mod Counts
pub mod Fitting
pub mod Listed
pub mod Places
pub mod Sizes
pub mod TypeLists
pub mod Unmade
