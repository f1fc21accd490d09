pub mod Reinforcement
pub mod ReinforcementLaws
pub mod Raising
pub mod Answer
pub mod Text
pub mod Right
pub mod Worked
