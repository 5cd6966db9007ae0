pub mod Execution
