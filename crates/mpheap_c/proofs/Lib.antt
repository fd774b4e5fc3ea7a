mod AsBox
mod Inside
mod Walks
mod Places
mod Crosses
