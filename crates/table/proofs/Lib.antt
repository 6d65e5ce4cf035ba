pub mod Ordering
pub mod Runs
pub mod Filling
pub mod Finding
