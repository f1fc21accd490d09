pub mod Held
pub mod Forest
pub mod Filling
pub mod Testing
pub mod ForestLaws
