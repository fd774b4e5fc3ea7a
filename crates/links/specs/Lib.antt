pub mod Rows
pub mod Named
pub mod Leaving
