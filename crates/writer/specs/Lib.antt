pub mod Bytes
pub mod Entry
pub mod Write
