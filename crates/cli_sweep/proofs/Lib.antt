pub mod ChartRuleLemmas
pub mod SweepRuleLemmas
pub mod FirmRuleLemmas
