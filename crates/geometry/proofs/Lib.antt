pub mod Bytes
pub mod Tests
pub mod Places
pub mod Numbered
pub mod Left
pub mod Front
