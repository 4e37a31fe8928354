-- What a search of a list of keys answers.
pub mod Places
