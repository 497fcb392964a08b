pub mod RunLemmas
pub mod OneLemmas
