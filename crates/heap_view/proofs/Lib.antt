pub mod Shows
pub mod Closures
