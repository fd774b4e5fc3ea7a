pub mod ReplayerContents
pub mod Replays
pub mod Requests
pub mod Anywhere
pub mod Laws
pub mod Expecting
pub mod Wrongs
