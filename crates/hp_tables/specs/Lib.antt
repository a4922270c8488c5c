pub mod Cells
pub mod Contents
pub mod Running
pub mod RecordsLeft
pub mod Texts
