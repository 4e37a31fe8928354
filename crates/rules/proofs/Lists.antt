-- Tables and lists, masks and entries.
pub mod Tables
pub mod Masks
pub mod Entries
pub mod Counts
