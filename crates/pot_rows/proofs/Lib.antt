pub mod Lists
pub mod RowLemmas
pub mod TieLemmas
pub mod PartLemmas
pub mod EndLemmas
pub mod PassLemmas
pub mod WorkLemmas
