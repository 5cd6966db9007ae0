pub mod NumberLemmas
pub mod ListLemmas
pub mod PointLemmas
pub mod ValueLemmas
pub mod TaskLemmas
pub mod CommandLemmas
pub mod LimitLemmas
pub mod KindLemmas
