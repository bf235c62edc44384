pub mod Acts
pub mod Stepped
