pub mod Ranking
pub mod Ordering
pub mod Wanting
pub mod Viewing
pub mod Theorems
