pub mod Standing
pub mod FetchStanding
pub mod ScrubStanding
pub mod RenewStanding
pub mod Alike
pub mod SessionLemmas
pub mod Excluding
