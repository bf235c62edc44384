pub mod Gaps
pub mod Taken
pub mod Sweep
