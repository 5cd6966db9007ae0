pub mod ChainLemmas
pub mod LevelLemmas
pub mod ListedLemmas
pub mod LongerLemmas
pub mod PickLemmas
