pub mod Engines
pub mod Parts
