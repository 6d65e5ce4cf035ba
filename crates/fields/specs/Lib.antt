pub mod Heights
pub mod Places
pub mod Named
