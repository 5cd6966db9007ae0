pub mod Adding
pub mod Exposing
pub mod HidingLemmas
pub mod Blinding
