pub mod Limits
pub mod Lines
pub mod Reader
pub mod Commands
pub mod Arguments
pub mod Stuffing
pub mod Reply
pub mod Examples
