pub mod Filling
pub mod Runs
pub mod RunStarts
mod Walks
pub mod Pools
pub mod Searches
