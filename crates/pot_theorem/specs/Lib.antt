pub mod Sessions
pub mod Worlds
pub mod Veil
pub mod Another
pub mod Hard
