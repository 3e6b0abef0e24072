pub mod Worklist
pub mod NodeSets
pub mod Settling
pub mod Working
