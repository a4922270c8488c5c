pub mod Network
pub mod Rows
