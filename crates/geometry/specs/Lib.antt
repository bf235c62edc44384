pub mod Lists
pub mod Bytes
pub mod Sizes
pub mod Places
