-- Beyond demand 3: the calls on bytes, what they refuse, and a copy in bytes beside any list of calls.
pub mod ReadersRight
pub mod ReadersRefused
pub mod ReadersFollow
