-- The book against the tables.
pub mod Told
pub mod Booked
pub mod BookLists
pub mod BookKept
pub mod BookBegins
pub mod BookAccess
pub mod BookInstalls
pub mod BookMove
pub mod BookReplays
pub mod BookCopies
