mod WindowLemmas
pub mod BoardWorkLemmas
