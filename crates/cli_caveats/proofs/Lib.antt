pub mod CaveatWorkLemmas
