pub mod Answers
pub mod Compiling
pub mod HeadlineLaws
pub mod Meant
pub mod Placing
pub mod RanksLaws
