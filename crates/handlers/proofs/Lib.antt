-- What the handlers' proofs share.
pub mod Sends
