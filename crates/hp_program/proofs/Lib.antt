pub mod Agreeing
pub mod Fuel
pub mod Growth
pub mod Keeping
pub mod Replaced
