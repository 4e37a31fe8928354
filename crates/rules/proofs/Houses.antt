-- Tables of first keys: where keys live, what a bad table is refused with, and that houses stay.
pub mod Placed
pub mod Refused22
pub mod Stay
