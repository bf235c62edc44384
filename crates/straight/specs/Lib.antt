pub mod Straight
pub mod Moving
