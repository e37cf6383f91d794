pub mod Leaders
pub mod Parts
pub mod States
pub mod Calls
