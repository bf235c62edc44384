pub mod Lines
pub mod Named
pub mod Opening
pub mod Read
