-- What a refusal says of its code.
pub mod Causes
