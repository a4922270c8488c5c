pub mod Answers
pub mod Calls
pub mod Forms
pub mod Known
pub mod Names
pub mod Statements
