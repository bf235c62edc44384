pub mod Coded
pub mod Judged
pub mod Goes
pub mod Moved
