pub mod Requests
pub mod Obeying
