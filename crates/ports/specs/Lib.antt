pub mod Ranges
pub mod Faults
pub mod Places
pub mod Deadlines
pub mod Budgets
pub mod Examples
