pub mod Generator
pub mod Right
pub mod Laws
