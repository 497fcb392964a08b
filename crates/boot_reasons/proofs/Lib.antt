pub mod TableReasonLemmas
pub mod TookLemmas
pub mod LookLemmas
pub mod ReasonLemmas
pub mod FirstLemmas
