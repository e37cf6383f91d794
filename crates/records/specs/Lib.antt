pub mod Spelling
pub mod Heads
pub mod Reading
pub mod Search
pub mod Files
pub mod Readers
pub mod Examples
