pub mod Parity
pub mod Bringing
pub mod Finding
pub mod Laws
pub mod Stopped
