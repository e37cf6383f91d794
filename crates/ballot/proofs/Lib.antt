pub mod Order
pub mod Count
pub mod Member
pub mod Nodes
pub mod Sends
