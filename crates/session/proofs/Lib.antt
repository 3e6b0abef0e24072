pub mod Promised
pub mod Did
