pub mod BoundLemmas
pub mod FrameLemmas
pub mod LevelLemmas
pub mod NamedBounds
pub mod NodeLemmas
pub mod PlacedLemmas
pub mod RunLaws
