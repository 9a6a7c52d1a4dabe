pub mod Columns
pub mod Reading
pub mod Exact
pub mod Gathering
pub mod Listing
pub mod Checks
pub mod Theorems
