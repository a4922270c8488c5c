-- Lemmas of the benchmark's code.
pub mod CodeLemmas
