pub mod PadsLemmas
pub mod PlaceLemmas
