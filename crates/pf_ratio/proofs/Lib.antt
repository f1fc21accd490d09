pub mod TextLemmas
pub mod SameAnswers
pub mod MarkingLemmas
