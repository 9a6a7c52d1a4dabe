pub mod Lists
pub mod LittleEndian
