pub mod Places
pub mod Walking
pub mod TakingOut
pub mod Splitting
pub mod Theorems
