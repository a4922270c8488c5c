-- Lemmas of the reader.
pub mod Passes
pub mod ReadingLaws
