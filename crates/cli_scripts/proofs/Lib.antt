mod ReplayLemmas
mod TornLemmas
pub mod ReplayRuleLemmas
pub mod TextRuleLemmas
mod BlockLemmas
pub mod CopyRuleLemmas
