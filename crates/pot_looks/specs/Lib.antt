pub mod Escapes
pub mod Looks
