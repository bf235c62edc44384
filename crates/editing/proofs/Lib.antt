pub mod Entries
pub mod Judged
pub mod Fits
pub mod Lent
pub mod Adding
pub mod Deleting
