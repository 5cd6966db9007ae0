pub mod LossLemmas
