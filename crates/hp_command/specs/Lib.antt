-- What contracts of the program cite.
pub mod Answers
pub mod AskedFor
pub mod Command
pub mod Reading
pub mod Session
pub mod TableTexts
pub mod TablesRead
