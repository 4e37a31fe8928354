pub mod Behind
pub mod Counting
pub mod Digits
pub mod Powers
