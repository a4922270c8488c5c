pub mod Ends
pub mod Follows
pub mod Machines
pub mod Parts
pub mod Sound
pub mod States
