pub mod Sessions
pub mod Laid
pub mod Parts
