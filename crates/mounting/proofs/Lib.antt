pub mod Mounted
pub mod Decodes
pub mod Directory
