pub mod Exact
pub mod Rating
