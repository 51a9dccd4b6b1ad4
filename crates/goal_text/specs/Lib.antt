pub mod BoundView
pub mod GoalText
pub mod SortText
pub mod Spelling
pub mod SpellingView
pub mod TasksView
