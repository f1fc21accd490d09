pub mod Formats
pub mod ItemLaws
