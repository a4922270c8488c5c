pub mod Constructs
pub mod Ranks
pub mod Rows
pub mod Unbuilt
