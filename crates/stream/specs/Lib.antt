pub mod Asked
pub mod Match
