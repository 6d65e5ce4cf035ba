pub mod Wire
pub mod Entry
pub mod Read
pub mod Owed
