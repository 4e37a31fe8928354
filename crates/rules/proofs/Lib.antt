-- Laws of the rules at which must-fail edits of definitions are refused,
pub mod SearchLaws
pub mod QueueLaws
pub mod JoinLaws
pub mod EntryLaws
pub mod CertifyLaws
pub mod ListLaws
pub mod DispatchLaws
pub mod MergerLaws
pub mod MergerJoin
-- and why the claims hold.
pub mod Lists
pub mod Protocol
pub mod Steps
pub mod Stream
pub mod Refine
pub mod Book
pub mod Demand
pub mod Messages
pub mod Records
pub mod Reading
pub mod Desks
pub mod Possible
pub mod Refusals
pub mod Houses
pub mod Lengths
pub mod Pages
pub mod Readers
