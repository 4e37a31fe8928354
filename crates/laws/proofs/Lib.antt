-- What a search of a list answers, as a scan by index.
pub mod Searches
