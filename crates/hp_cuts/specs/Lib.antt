pub mod Blocks
pub mod Targets
