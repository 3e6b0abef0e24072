pub mod Changes
pub mod Rounds
