pub mod PlanLemmas
pub mod PlanLaws
pub mod LoadLemmas
pub mod LoadLaws
