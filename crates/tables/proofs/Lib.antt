pub mod Editions
pub mod Changes
pub mod Sound
pub mod Kept
pub mod Stored
pub mod Checked
