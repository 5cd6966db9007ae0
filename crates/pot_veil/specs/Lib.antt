pub mod Drills
pub mod Explained
pub mod FileLaws
pub mod PieceLaws
pub mod Seen
pub mod Veiled
