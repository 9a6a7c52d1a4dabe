pub mod Sizes
pub mod Arrivals
