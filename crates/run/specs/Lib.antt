pub mod Spelled
pub mod Put
