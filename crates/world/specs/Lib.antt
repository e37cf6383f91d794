pub mod Hosts
pub mod Connections
pub mod Served
pub mod Values
pub mod Kept
pub mod Scheduling
pub mod Waiting
pub mod Examples
