mod AloneLemmas
pub mod ToolLemmas
mod SealLemmas
pub mod SealCaseLemmas
pub mod ElfLemmas
