pub mod Adding
pub mod Pages
pub mod Words
pub mod Clearing
pub mod Counting
pub mod Skips
