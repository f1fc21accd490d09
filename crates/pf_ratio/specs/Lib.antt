pub mod Answer
pub mod Marking
pub mod Laws
