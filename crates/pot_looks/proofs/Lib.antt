pub mod EscapeLemmas
pub mod LookLemmas
