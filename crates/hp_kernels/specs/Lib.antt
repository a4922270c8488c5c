pub mod Grouping
pub mod KeyRows
pub mod LoopColumns
pub mod Loops
