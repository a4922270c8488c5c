pub mod ElemLemmas
pub mod FoldLemmas
pub mod RunFuel
pub mod RunGrowth
pub mod TextLemmas
