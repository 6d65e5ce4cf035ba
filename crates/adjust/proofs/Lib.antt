pub mod Promises
pub mod Whole
pub mod Calling
pub mod Worked
pub mod Entering
