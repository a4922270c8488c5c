-- Lemmas of the program.
pub mod Answering
pub mod Carried
pub mod Causes
pub mod Compiling
pub mod Evaluating
pub mod Exactly
pub mod NeverSpent
pub mod OneReading
pub mod OneTables
pub mod Saying
pub mod ScriptCuts
pub mod TableCuts
pub mod TableLemmas
pub mod Telling
