pub mod Sessions
pub mod Stored
pub mod Audited
pub mod Kept
pub mod Steps
pub mod Forward
