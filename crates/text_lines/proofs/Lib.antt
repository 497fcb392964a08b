pub mod LengthLemmas
pub mod LostLemmas
