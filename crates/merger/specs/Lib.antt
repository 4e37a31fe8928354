-- The head order as a value of the code.
pub mod Order
