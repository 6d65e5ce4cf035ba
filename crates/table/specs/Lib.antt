pub mod Ordered
pub mod Filled
