pub mod Letters
pub mod Names
pub mod Numbers
pub mod Greatest
pub mod Unknown
