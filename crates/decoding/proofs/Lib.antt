pub mod Reader
pub mod Filled
pub mod Measured
pub mod Known
