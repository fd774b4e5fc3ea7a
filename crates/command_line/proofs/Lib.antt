pub mod Ending
pub mod Stressing
