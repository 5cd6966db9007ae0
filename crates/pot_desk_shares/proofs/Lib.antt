pub mod FindLemmas
pub mod FormatLemmas
pub mod GiveLemmas
pub mod SetLemmas
