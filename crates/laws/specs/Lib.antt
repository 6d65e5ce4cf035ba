pub mod Tests
pub mod Range
pub mod Scan
