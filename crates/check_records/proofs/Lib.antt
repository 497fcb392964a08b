mod OpenLemmas
mod RefusalLemmas
mod BlockLemmas
mod OtherLemmas
mod OutcomeLemmas
mod SightLemmas
mod NotedLemmas
pub mod UnerasedLemmas
mod EraseLemmas
mod RepeatLemmas
pub mod AgainLemmas
mod CaveatLemmas
mod HoldLemmas
pub mod GatedLemmas
