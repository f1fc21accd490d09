pub mod Stepping
pub mod Moved
pub mod Counting
pub mod Onward
pub mod Units
pub mod Keeping
pub mod Rowing
pub mod Texts
pub mod Touching
pub mod Sweeping
pub mod TurnedRows
pub mod SameRows
pub mod OneSweep
mod WorkedRows
