pub mod PlaceLemmas
pub mod KeptLemmas
pub mod FreeCountLemmas
pub mod HandedLemmas
