pub mod Network
pub mod Tree
