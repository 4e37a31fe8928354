-- The protocol as moves, and its invariant.
pub mod ProtocolTables
pub mod Protocol
pub mod Invariants
-- What a move changes: what stays, what is new, and the messages.
pub mod Frames
pub mod Later
pub mod Masked
pub mod Mail
pub mod Turns
pub mod News
pub mod Changes
pub mod Committed
