mod CountLemmas
mod StepLemmas
mod SeenLemmas
mod TallyLemmas
mod JudgeLemmas
pub mod RuleLemmas
