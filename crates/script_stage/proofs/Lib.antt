pub mod StageLemmas
pub mod StageLaws
