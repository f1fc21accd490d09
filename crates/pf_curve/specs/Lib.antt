pub mod CutFunction
pub mod Cuts
pub mod Flows
pub mod Finding
