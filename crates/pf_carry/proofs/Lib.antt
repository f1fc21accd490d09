pub mod Floors
pub mod Scaled
pub mod Lowering
pub mod Emptying
pub mod Carrying
