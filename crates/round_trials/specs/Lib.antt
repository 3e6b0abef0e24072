pub mod Doubling
pub mod Driven
