-- Lemmas of the outside.
pub mod Growth
pub mod OrderLemmas
