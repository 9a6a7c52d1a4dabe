pub mod Follows
pub mod Runs
