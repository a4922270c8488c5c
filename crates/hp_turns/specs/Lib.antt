pub mod Apart
pub mod Turns
pub mod WorkedRows
