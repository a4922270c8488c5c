pub mod AddingLemmas
pub mod FirstLemmas
pub mod ProgramLemmas
