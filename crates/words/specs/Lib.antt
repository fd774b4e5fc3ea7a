pub mod Bits
pub mod Classes
pub mod Layout
pub mod Placing
pub mod Refusals
pub mod Sets
