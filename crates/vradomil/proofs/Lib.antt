pub mod Steps
pub mod Reports
pub mod Memory
pub mod FirstRows
pub mod Laying
pub mod Clocks
pub mod Theorems
