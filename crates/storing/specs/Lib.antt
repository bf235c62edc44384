pub mod Numbers
pub mod Stored
pub mod Fits
