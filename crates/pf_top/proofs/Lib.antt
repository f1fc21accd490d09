pub mod NaturalLemmas
pub mod RequestLemmas
pub mod LevelLemmas
pub mod PointLemmas
pub mod SweepLemmas
pub mod AnsweringLemmas
pub mod RunningLemmas
pub mod AskedRows
