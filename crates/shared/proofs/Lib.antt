pub mod Passing
pub mod Granting
pub mod Departing
