pub mod LeftRowLemmas
pub mod LeftImageLemmas
pub mod RaisesCutLemmas
mod PairLemmas
mod OwnStepLemmas
mod OwnWindowLemmas
pub mod OwnLeftLemmas
mod OwnPickLemmas
pub mod OwnDecisionLemmas
pub mod OwnLaws
pub mod PartLemmas
pub mod ExampleLemmas
pub mod ChosenLemmas
pub mod RunLemmas
