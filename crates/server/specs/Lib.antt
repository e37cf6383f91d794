pub mod Options
pub mod Tickets
pub mod LoneDesks
pub mod Lone
pub mod Served
pub mod Examples
