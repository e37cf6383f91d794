pub mod Stamp
pub mod Accounts
pub mod Table
pub mod Login
pub mod Examples
