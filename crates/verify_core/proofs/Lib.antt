mod Assembly
mod BuiltItems
mod JudgeLaws
mod OwedLaws
mod OwedOnce
mod PassLaws
mod ReachLaws
mod RoundLaws
mod RunLaws
mod StepsOnce
pub mod Basics
pub mod NameCounts
pub mod OneAnswer
pub mod OneCount
pub mod OneVerdict
pub mod OneWalk
pub mod SettledLaws
pub mod VerdictLaws
pub mod Verified
