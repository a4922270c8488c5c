-- What the tests cite.
pub mod Codes
