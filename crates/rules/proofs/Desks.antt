-- Beyond demand 3: a transaction has one desk, and writes no more than it allows.
pub mod DeskGroup
pub mod DeskLists
pub mod WriteLimits
