pub mod Lent
pub mod Calls
