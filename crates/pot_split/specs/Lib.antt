pub mod Secrecy
pub mod Threshold
