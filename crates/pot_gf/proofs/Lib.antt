pub mod Built
pub mod FieldLemmas
pub mod LagrangeLemmas
pub mod Polys
pub mod Values
pub mod Vanishing
pub mod Zeros
