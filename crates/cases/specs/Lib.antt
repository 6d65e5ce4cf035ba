pub mod Answer
pub mod Case
pub mod Cases
pub mod Shown
