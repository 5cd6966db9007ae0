pub mod Rows
pub mod Ties
pub mod Parts
pub mod Ends
pub mod Works
