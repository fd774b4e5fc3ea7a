pub mod Claiming
pub mod Gathered
pub mod Halves
pub mod Passing
pub mod Sums
pub mod Words
