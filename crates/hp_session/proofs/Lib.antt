-- Lemmas of a session.
pub mod CallLemmas
pub mod PlayLemmas
pub mod StepLemmas
