pub mod Arriving
pub mod Reducing
pub mod Scanning
pub mod Sealing
