pub mod Numbers
pub mod Widths
pub mod Rows
pub mod Entries
pub mod Tables
pub mod Laid
pub mod Laws
