pub mod Bytes
pub mod Number
pub mod Report
pub mod Sketch
pub mod Put
