pub mod Shelves
pub mod Filling
pub mod Opening
