pub mod CourseLemmas
mod FileMapLemmas
mod PhaseLemmas
pub mod EndLemmas
pub mod ReadLemmas
