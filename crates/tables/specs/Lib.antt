pub mod Numbers
pub mod Rows
pub mod Tables
pub mod Table
