pub mod CapacityBounds
pub mod LineSums
pub mod FirstRefusal
pub mod Built
pub mod MirrorLemmas
