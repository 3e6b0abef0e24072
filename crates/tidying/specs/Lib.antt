pub mod Targets
pub mod Skips
pub mod Ways
pub mod Reached
pub mod Tidy
