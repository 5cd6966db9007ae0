pub mod ExplainLemmas
pub mod JoinLemmas
pub mod PadLemmas
pub mod RowLemmas
pub mod ShareLemmas
pub mod SplitLaws
pub mod ThresholdLaws
pub mod WeightedRows
