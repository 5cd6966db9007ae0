pub mod Archives
pub mod Calls
pub mod Desks
pub mod Disks
pub mod Kept
pub mod Losses
pub mod Rooms
pub mod Streams
