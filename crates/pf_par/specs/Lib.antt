pub mod Text
pub mod Answers
pub mod Right
pub mod Laws
pub mod Rules
pub mod ParState
pub mod Outline
pub mod CurveParts
