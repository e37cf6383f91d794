pub mod Lists
pub mod Ballots
pub mod Nodes
pub mod PValues
pub mod Sends
pub mod Slots
