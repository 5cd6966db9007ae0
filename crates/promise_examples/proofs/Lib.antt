pub mod Filed
pub mod Rerun
pub mod Counted
pub mod Few
pub mod Opened
pub mod Blinded
pub mod Streamed
