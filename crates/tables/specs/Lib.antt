pub mod Sizes
pub mod Editions
pub mod Tables
pub mod Steps
