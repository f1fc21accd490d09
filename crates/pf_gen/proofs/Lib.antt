pub mod Rows
mod Judging
pub mod Accepted
pub mod DrawnArcs
pub mod SummaryLemmas
pub mod SameAnswers
pub mod OneSummary
