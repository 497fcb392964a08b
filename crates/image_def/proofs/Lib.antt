pub mod FaultLemmas
pub mod RelationLemmas
pub mod GuaranteeLemmas
pub mod ApartLemmas
mod RowLemmas
pub mod TrialLemmas
mod PlaceLemmas
