pub mod Signed
pub mod Writings
pub mod Answers
pub mod Listings
pub mod Rating
pub mod Heights
pub mod Sketches
