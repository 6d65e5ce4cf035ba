pub mod Following
pub mod Marking
pub mod Listing
pub mod Checking
