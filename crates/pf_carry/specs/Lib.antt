pub mod Carry
pub mod Scaling
pub mod Trimming
