pub mod CopyDecided
pub mod Owned
pub mod OwnedFields
pub mod RunTypes
pub mod Unrun
pub mod UnrunParts
pub mod Valued
