pub mod ImageLemmas
pub mod StepLemmas
pub mod RewriteLemmas
pub mod EraseLemmas
mod StartLemmas
