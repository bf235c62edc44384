pub mod Tables
pub mod Translated
