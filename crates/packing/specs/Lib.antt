pub mod Reading
pub mod Placing
pub mod Table
