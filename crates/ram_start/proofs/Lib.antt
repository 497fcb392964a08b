pub mod RamLemmas
pub mod StartLemmas
