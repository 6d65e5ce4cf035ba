pub mod Adjusted
pub mod Answers
pub mod Call
pub mod Planted
