-- Refusals leave all as it was; the first cause is returned, a number of the call's own; and what is refused 26 and 27.
pub mod Unaltered
pub mod By
pub mod Beside
pub mod FirstCause
pub mod OwnNumbers
pub mod Moments
