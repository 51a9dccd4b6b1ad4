pub mod PathLaws
pub mod GoalLists
pub mod WalkLaws
pub mod CountLaws
pub mod MarkLaws
pub mod Variants
