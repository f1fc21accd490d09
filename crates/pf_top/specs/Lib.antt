pub mod Job
pub mod Asked
pub mod Words
pub mod Messages
pub mod Answering
pub mod Running
pub mod Laws
