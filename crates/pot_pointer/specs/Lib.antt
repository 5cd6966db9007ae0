pub mod Inside
pub mod Pointers
