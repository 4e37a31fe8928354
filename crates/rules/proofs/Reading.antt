-- Beyond demand 3: reads and searches are right, and what a snapshot sees stays.
pub mod KeysOnce
pub mod Versions
pub mod MovesTold
pub mod BasesKept
pub mod LiveOnce
pub mod CallsKept
pub mod LeftInstalls
pub mod ReadAnswers
pub mod ReadsRight
pub mod SearchesRight
pub mod SnapshotsStay
