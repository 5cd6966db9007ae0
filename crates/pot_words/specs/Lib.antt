pub mod Answers
pub mod Lists
pub mod Values
pub mod Tasks
pub mod Limits
