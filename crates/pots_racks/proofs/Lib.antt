pub mod CatalogLemmas
pub mod SectionLemmas
pub mod TextLemmas
