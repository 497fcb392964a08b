pub mod MapLemmas
pub mod MapTextLemmas
pub mod PlaceLemmas
