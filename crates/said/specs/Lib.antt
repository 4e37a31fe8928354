-- What each call says, in the numbers of the requirements.
pub mod Said
pub mod Decided
pub mod Outcomes
