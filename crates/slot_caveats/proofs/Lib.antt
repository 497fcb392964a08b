pub mod SeenLemmas
pub mod MoreLemmas
pub mod ListingLemmas
pub mod OtpLemmas
pub mod TableCaveatLemmas
pub mod SlotLemmas
pub mod SameLemmas
