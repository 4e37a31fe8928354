pub mod Homes
pub mod Lists
