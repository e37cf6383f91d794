pub mod Parts
pub mod Slots
pub mod Asked
pub mod Idle
pub mod Adoption
pub mod Orderly
