pub mod Weights
pub mod Claiming
pub mod Places
pub mod Finishing
pub mod Hiring
