pub mod Looks
pub mod Looking
