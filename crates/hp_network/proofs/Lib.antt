pub mod Alone
pub mod Ends
pub mod Joins
pub mod Own
pub mod Rounds
pub mod States
pub mod Worlds
