pub mod Bounds
pub mod Sessions
pub mod Written
pub mod Stats
pub mod Events
pub mod Reopenings
pub mod Examples
