pub mod BigEndian
pub mod Entries
pub mod Heads
pub mod Reading
