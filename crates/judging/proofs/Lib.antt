pub mod Turns
pub mod Written
pub mod Fixed
pub mod Here
pub mod Entered
pub mod Lent
