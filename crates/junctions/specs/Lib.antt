pub mod Call
pub mod Entries
