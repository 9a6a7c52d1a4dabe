pub mod Ready
pub mod Plans
