pub mod Linearized
pub mod Examples
