pub mod Ranges
pub mod Examples
