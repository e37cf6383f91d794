pub mod Numbers
pub mod Frames
pub mod Reading
pub mod Fitting
pub mod Examples
