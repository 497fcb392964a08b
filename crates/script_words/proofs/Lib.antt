pub mod MarkLemmas
mod SplitLemmas
mod FindLemmas
pub mod PatternLemmas
mod ListLemmas
mod SaidLemmas
pub mod LookLemmas
