pub mod Bounds
pub mod ByElement
pub mod ByPhase
pub mod Alike
