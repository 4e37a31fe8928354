-- The invariant after a move, by groups, and after any.
pub mod StepParts
pub mod StepPosts
pub mod StepCourses
pub mod RoundOk
pub mod StepRounds
pub mod StepAccount
pub mod StepClocks
pub mod StepOrder
pub mod StepWriters
pub mod StepLists
pub mod Reached
pub mod MachineClaims
