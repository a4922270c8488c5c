pub mod Coll
pub mod Exchange
