pub mod Names
pub mod Sets
