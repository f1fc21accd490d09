pub mod Parameters
pub mod Swept
pub mod Moving
pub mod Rows
pub mod Text
pub mod Laws
