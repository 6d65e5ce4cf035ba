pub mod Keys
pub mod Ranks
pub mod Popping
pub mod Members
