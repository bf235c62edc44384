pub mod Edits
pub mod Rows
