pub mod Begun
pub mod Came
pub mod ExecutionLemmas
pub mod Taken
