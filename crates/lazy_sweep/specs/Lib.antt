pub mod PageRows
pub mod AvailableRows
pub mod Store
pub mod Kept
pub mod Sweeps
pub mod Sound
