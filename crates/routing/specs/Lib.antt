pub mod Route
pub mod Open
