pub mod JoinLemmas
pub mod TurnLemmas
