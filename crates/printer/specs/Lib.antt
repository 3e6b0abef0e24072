pub mod Pages
pub mod Prints
