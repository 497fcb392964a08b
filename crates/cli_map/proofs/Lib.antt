pub mod MapWorkLemmas
mod FileLemmas
mod StartWordLemmas
