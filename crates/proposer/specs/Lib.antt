pub mod Quorums
pub mod Scouts
pub mod Commanders
pub mod Unions
