pub mod HostLemmas
pub mod LawLemmas
mod StagingLemmas
pub mod ShortLemmas
pub mod TripleLemmas
pub mod OwnLemmas
pub mod FirstLemmas
mod NotedLemmas
pub mod WriteLawLemmas
pub mod MadeLemmas
pub mod PassLemmas
pub mod ToldLemmas
