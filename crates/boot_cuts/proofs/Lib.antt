pub mod RunLemmas
pub mod RunLawLemmas
pub mod TearLemmas
pub mod ClassLemmas
pub mod FoundLemmas
pub mod ReplayLemmas
mod BesideLemmas
mod WalkLemmas
mod StandingLemmas
mod TailLemmas
