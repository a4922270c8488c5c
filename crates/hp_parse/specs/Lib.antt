pub mod Machine
pub mod Parsing
pub mod Readers
pub mod Rows
