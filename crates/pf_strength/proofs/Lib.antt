pub mod Certificate
pub mod Steps
pub mod Whole
pub mod PartitionLemmas
pub mod TextLemmas
pub mod SameAnswers
pub mod Examples
pub mod OneStrength
