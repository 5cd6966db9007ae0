pub mod Acting
pub mod Openings
pub mod Simulating
pub mod Executions
pub mod Sessions
pub mod Clean
pub mod Ended
