pub mod Acceptors
pub mod Calls
pub mod Fields
