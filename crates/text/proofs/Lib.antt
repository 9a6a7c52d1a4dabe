pub mod Decimal
pub mod Puts
pub mod Theorems
pub mod Signs
