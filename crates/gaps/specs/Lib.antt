pub mod Gaps
pub mod Sweep
