pub mod BuildLemmas
pub mod BuiltCarried
pub mod BuiltKept
pub mod BuiltMeaning
pub mod BuiltPlaced
pub mod ConstructForms
pub mod StepLemmas
