pub mod Characters
pub mod Undone
