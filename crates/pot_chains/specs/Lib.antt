pub mod Levels
pub mod Listed
pub mod Paths
pub mod Picks
pub mod Steps
