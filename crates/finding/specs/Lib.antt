pub mod Lent
pub mod Whole
