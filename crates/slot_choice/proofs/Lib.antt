pub mod PartListLemmas
pub mod ListLemmas
pub mod UnitLemmas
pub mod PlaceLemmas
pub mod UpdateLemmas
pub mod VersionLemmas
