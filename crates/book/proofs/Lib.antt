pub mod Made
pub mod Places
pub mod Lines
pub mod Versions
pub mod Goods
pub mod Passing
pub mod IfGood
pub mod Refusals
