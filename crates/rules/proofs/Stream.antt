-- The merger and the copies, over any such logs.
pub mod Stream
pub mod StreamInv
pub mod StreamTake
pub mod StreamDue
pub mod StreamEmit
pub mod StreamReached
pub mod StreamClaims
