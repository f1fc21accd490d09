pub mod Strength
pub mod Text
pub mod Right
pub mod Newton
pub mod Testing
pub mod StrengthLaws
pub mod Worked
pub mod TextLaws
