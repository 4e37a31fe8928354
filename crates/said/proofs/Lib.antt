pub mod Taken
pub mod Decisions
pub mod Calls
