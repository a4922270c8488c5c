-- What contracts of the outside cite.
pub mod Counts
pub mod Memory
pub mod Orders
pub mod Outside
