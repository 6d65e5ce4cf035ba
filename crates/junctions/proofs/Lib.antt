pub mod Writing
pub mod Calling
pub mod Few
