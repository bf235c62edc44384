pub mod InOrder
pub mod Done
pub mod Live
pub mod Edits
pub mod InTurn
pub mod First
pub mod Codes
pub mod Numbers
