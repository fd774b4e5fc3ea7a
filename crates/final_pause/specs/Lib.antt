pub mod Pauses
pub mod Crews
pub mod Dealing
pub mod Waiting
pub mod Helping
pub mod Serving
pub mod Gathering
pub mod Rounds
