pub mod Asked
pub mod Best
