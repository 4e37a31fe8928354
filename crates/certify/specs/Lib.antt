pub mod Leaves
pub mod Asks
pub mod Gather
