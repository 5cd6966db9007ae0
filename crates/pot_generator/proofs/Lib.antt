pub mod MadeLemmas
pub mod NameLemmas
pub mod StepLemmas
