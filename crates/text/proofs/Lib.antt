pub mod Puts
pub mod Numbers
pub mod Values
pub mod Lists
pub mod Room
pub mod Worked
