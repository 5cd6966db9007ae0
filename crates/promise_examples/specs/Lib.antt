pub mod Scripts
pub mod Stored
pub mod Desks
pub mod Archives
