pub mod Uses
pub mod Parts
pub mod Choosing
pub mod Decided
pub mod Planned
pub mod Carried
pub mod Theorems
