pub mod Session
pub mod Grouped
