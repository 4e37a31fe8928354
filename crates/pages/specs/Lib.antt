-- An outcome as a printed line.
pub mod Digits
pub mod Line
pub mod Laid
pub mod Points
