pub mod FieldLemmas
pub mod KindLemmas
pub mod LineLemmas
pub mod ListedLemmas
pub mod NameLemmas
pub mod PartLemmas
pub mod ReplyLemmas
pub mod SequenceLemmas
