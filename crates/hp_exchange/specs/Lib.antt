pub mod Concats
pub mod Halos
pub mod Ranges
