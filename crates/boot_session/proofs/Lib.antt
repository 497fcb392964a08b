pub mod NeighbourLemmas
pub mod ConfinedLaws
pub mod GatedLaws
pub mod PlanStepLemmas
pub mod PlanSlotLemmas
pub mod PlanServedLemmas
pub mod PlanLaws
mod ExampleLemmas
mod PlayLemmas
mod TargetLemmas
mod ChangedPieceLemmas
mod CutBetweenLemmas
mod CutBehindLemmas
mod CutWithinLemmas
mod OutsideLaws
mod RecorderLemmas
mod MarkLemmas
pub mod ServedLemmas
mod SessionLemmas
pub mod SlotLemmas
mod StepBoundLemmas
