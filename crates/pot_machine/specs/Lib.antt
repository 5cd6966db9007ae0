pub mod Slot
pub mod Column
pub mod Table
pub mod Machine
pub mod Rules
pub mod Making
pub mod Logs
pub mod Laws
