pub mod Changes
pub mod Coming
pub mod Payloads
pub mod Reading
pub mod Fitting
pub mod Taking
pub mod Examples
