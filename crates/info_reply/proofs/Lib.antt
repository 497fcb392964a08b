mod NameLemmas
pub mod AskingLemmas
mod FittingLemmas
