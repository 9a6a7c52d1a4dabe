pub mod Hosts
pub mod Day
