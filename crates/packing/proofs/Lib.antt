pub mod One
pub mod Walks
pub mod Placed
pub mod Table
