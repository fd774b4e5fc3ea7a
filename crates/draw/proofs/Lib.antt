pub mod Traces
pub mod Scripts
