mod UnreachedLemmas
mod SoundPartLemmas
pub mod ReasonWorkLemmas
