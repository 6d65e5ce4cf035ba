pub mod Start
pub mod Along
pub mod By
