pub mod Code
pub mod Correct
pub mod Lowering
