-- What contracts of a session cite.
pub mod Playing
