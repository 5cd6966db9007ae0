pub mod Blinds
pub mod Exposure
pub mod Hiding
pub mod Loose
pub mod Veils
