pub mod CellLemmas
pub mod ColumnLemmas
pub mod ContentLemmas
pub mod ListLemmas
pub mod RecordLemmas
