pub mod Entries
pub mod Rules
pub mod Grouped
pub mod Search
pub mod Stamp
