pub mod Calls
pub mod Steps
pub mod Events
pub mod Panels
pub mod Theorems
