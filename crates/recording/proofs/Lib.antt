pub mod Knowing
pub mod Placing
pub mod Lines
pub mod Noting
