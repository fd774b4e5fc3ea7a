pub mod Marked
pub mod Newcomers
pub mod Crew
