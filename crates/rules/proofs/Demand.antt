-- Demand 3.
pub mod Demand
pub mod Stands
pub mod Theorem
