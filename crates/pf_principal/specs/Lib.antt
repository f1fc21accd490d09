pub mod Principal
pub mod Lines
pub mod Rows
pub mod Text
pub mod Reading
pub mod Right
pub mod Testing
pub mod PrincipalLaws
