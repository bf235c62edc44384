pub mod Lines
pub mod Showing
