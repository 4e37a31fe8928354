-- Why the scripts play: what they hand in was written before, and the rest is computed.
pub mod Open
pub mod Playable
pub mod Plays
pub mod Order
pub mod Seen
