pub mod Replicas
pub mod Parts
pub mod Calls
pub mod Taken
pub mod Examples
