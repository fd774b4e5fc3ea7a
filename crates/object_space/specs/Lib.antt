pub mod Store
pub mod Kept
pub mod Stores
pub mod Rooms
pub mod Sweeps
pub mod Forgets
pub mod Along
pub mod Many
