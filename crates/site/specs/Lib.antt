pub mod Accessed
