pub mod Catalog
pub mod Choices
pub mod Racks
