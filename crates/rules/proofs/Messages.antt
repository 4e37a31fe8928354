-- Beyond demand 3: messages go on.
pub mod Pending
pub mod Phases
pub mod PhaseTurns
pub mod PhaseParts
pub mod StepPhases
pub mod InTurn
pub mod Spoken
pub mod GoesOn
pub mod KnownWords
pub mod Progress
