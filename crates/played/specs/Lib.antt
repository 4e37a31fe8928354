-- Demand 3 speaks of lists that there are: four scripts, what each of their calls answers, and what the copies hold after them.
pub mod Script
pub mod First
pub mod Second
pub mod Third
pub mod Fourth
pub mod Fifth
pub mod Seen
