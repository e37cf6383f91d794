pub mod Parts
pub mod Wins
pub mod Heard
pub mod Places
