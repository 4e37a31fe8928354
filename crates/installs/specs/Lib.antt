pub mod Forgettable
pub mod Installable
