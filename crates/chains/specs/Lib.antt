pub mod Chains
pub mod Link
pub mod Listed
