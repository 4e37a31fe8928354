-- Beyond demand 3: when a write is refused 29, and that a value that is answered fits.
pub mod Measured
pub mod TablesFit
pub mod AnswersFit
