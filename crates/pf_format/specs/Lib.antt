pub mod Format
pub mod Shapes
pub mod PairLaws
pub mod LineLaws
