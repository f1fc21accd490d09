pub mod Joining
pub mod Neighbours
pub mod Places
pub mod Seen
