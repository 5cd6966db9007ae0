pub mod RebuiltLemmas
