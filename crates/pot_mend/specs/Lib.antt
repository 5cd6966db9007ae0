pub mod Scrubs
pub mod Repairs
pub mod Moves
