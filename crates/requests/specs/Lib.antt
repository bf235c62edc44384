pub mod Numbers
pub mod Judge
pub mod Codes
