mod ReadLemmas
mod LineLemmas
mod ProgressLemmas
pub mod MeaningLemmas
mod TextLemmas
mod ListLemmas
pub mod LimitLemmas
