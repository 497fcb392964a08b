mod ByCommandLemmas
mod CommandByteLemmas
mod SectorLemmas
mod WordListLemmas
mod StepListLemmas
mod PutListLemmas
mod FilledPageLemmas
mod PassingLemmas
pub mod FirstFailingLemmas
mod RaisedBitLemmas
mod PageByPageLemmas
mod RebootFlagLemmas
mod RefusedLemmas
pub mod StepsInsideLemmas
pub mod WellFormedDoneLemmas
mod ReadArgumentLemmas
