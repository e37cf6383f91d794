pub mod Rolls
pub mod Retries
pub mod Wakes
