pub mod WholeRows
pub mod Parts
pub mod Members
