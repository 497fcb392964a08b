mod TestLemmas
mod TableLemmas
mod CountLemmas
mod SeenLemmas
mod PartLemmas
mod ImageLemmas
mod FindingLemmas
mod VerdictLemmas
pub mod CheckRuleLemmas
pub mod TallyLemmas
pub mod FoundLemmas
pub mod TraceLemmas
pub mod ImagesFoundLemmas
mod PairLemmas
mod NameLemmas
pub mod WorkLemmas
mod LostLemmas
mod StatusLemmas
pub mod CutsRuleLemmas
