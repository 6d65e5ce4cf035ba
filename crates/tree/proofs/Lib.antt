pub mod Planting
pub mod Entries
