pub mod Growing
pub mod Refusing
pub mod Explained
