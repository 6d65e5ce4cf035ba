pub mod Sights
pub mod Halves
pub mod Table
