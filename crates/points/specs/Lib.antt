-- The fixed points P1 to P14, and those of Q1.11, Q3.2, Q5.7, Q8.10 and Q12.10.
pub mod States
pub mod Points
