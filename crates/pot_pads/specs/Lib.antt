pub mod Inside
pub mod Pads
