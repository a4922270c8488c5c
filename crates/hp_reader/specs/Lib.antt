-- What contracts of the reader cite.
pub mod Answers
pub mod Reading
