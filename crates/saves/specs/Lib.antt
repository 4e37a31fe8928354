pub mod AtPlace
pub mod Own
