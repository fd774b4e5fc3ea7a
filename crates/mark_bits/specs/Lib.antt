pub mod Claims
pub mod Granules
pub mod Rule
pub mod Tables
