pub mod Options
pub mod Digests
pub mod Faults
