mod ImageLemmas
mod UnitLemmas
pub mod StageRuleLemmas
