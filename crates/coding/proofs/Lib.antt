pub mod Runs
pub mod Round
pub mod Sizes
pub mod Writer
