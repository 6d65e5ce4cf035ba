pub mod Few
pub mod Halves
pub mod Joining
pub mod Order
