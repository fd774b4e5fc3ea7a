pub mod Roots
pub mod Finding
