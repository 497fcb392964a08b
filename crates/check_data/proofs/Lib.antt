pub mod ListLemmas
pub mod WindowLemmas
pub mod OtherLemmas
pub mod LooseLemmas
pub mod EarlyLemmas
pub mod InsideLemmas
pub mod CodeLemmas
