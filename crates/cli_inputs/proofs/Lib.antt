mod RowLemmas
mod BoardLemmas
mod PoolLemmas
pub mod JsonLemmas
pub mod AskLemmas
pub mod ScriptLemmas
pub mod FormLemmas
pub mod ContentLemmas
pub mod InputLemmas
pub mod WorkLemmas
