pub mod Turns
pub mod Lent
pub mod Judged
pub mod Sight
