pub mod Joined
pub mod Long
