pub mod Taking
pub mod Finding
pub mod Raising
pub mod Surveys
