pub mod Replies
pub mod FitLaws
pub mod Looks
pub mod Turned
