pub mod Accounts
pub mod Archives
pub mod Counts
pub mod Desks
pub mod Disks
pub mod Streams
pub mod Failing
pub mod Rooms
