pub mod Finding
pub mod Joins
pub mod Making
pub mod Shares
pub mod Veils
