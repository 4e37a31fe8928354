-- A refusal by its cause.
pub mod Refusals
pub mod Checks
