mod DoerLemmas
mod CheckpointLemmas
pub mod MovingLemmas
pub mod TraceLemmas
pub mod NoteLemmas
pub mod PlayLemmas
pub mod ComingLemmas
