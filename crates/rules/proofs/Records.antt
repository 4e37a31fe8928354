-- Beyond demand 3: records go on.
pub mod StreamNext
pub mod Written
pub mod LogsAscend
pub mod StreamWhole
pub mod DueWhole
pub mod StreamDrain
pub mod EmitDrains
pub mod Records
