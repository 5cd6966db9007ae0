pub mod Listing
pub mod Finding
pub mod Rechecking
pub mod Telling
pub mod Laws
