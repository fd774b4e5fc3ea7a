pub mod Crew
pub mod Marked
