pub mod Assembly
pub mod Contents
pub mod Objects
pub mod Pieces
pub mod Sealing
