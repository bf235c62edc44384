pub mod Judged
pub mod Looks
pub mod Shown
