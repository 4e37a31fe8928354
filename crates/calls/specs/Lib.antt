pub mod Tables
pub mod Calls
pub mod Places
pub mod Match
