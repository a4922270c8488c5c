pub mod Folding
pub mod Lines
pub mod Mail
pub mod Parts
pub mod Scanning
pub mod Sealing
pub mod Sums
pub mod Tables
