pub mod Pass
pub mod Printed
