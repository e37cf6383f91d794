pub mod Fitting
pub mod Statuses
pub mod Tickets
pub mod AsLogged
pub mod Bests
pub mod Zips
pub mod Forked
pub mod Jobs
