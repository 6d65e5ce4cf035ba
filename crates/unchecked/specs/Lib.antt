pub mod Ways
pub mod List
pub mod Book
