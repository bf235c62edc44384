pub mod Judged
pub mod Sessions
pub mod Parts
pub mod Served
