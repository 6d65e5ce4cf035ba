pub mod Drawn
pub mod Prepared
