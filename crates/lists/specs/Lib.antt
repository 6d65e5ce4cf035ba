pub mod Listing
pub mod NotChecked
pub mod Numbers
pub mod Run
