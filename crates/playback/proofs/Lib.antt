pub mod Lines
pub mod Turns
pub mod Leaving
pub mod Texts
pub mod Theorems
