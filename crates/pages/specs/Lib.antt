pub mod Memory
pub mod Opening
pub mod Reads
pub mod Runs
pub mod FreeRuns
pub mod Starts
pub mod Hints
