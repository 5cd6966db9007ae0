pub mod Entries
pub mod Packs
pub mod Parts
