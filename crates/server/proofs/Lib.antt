pub mod LoneLemmas
pub mod Alone
