pub mod Seeing
pub mod Storing
pub mod Hiding
pub mod Keeping
pub mod Stepping
pub mod Onward
