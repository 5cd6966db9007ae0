pub mod BlurLemmas
pub mod CandidateLemmas
pub mod FilterLemmas
pub mod OrderLemmas
pub mod RangeLemmas
pub mod TableLemmas
