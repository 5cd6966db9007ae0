pub mod OnePut
pub mod Rechecked
pub mod Quiet
pub mod InWorld
pub mod Another
pub mod Remaining
pub mod Throughout
