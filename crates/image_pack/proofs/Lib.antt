pub mod StreamLemmas
pub mod FlashLemmas
pub mod PartLemmas
pub mod WithinLemmas
pub mod RangeLemmas
pub mod RowLemmas
pub mod BoardLemmas
pub mod FaultLemmas
pub mod TextLaws
pub mod OneItemLemmas
pub mod SealedItemLemmas
pub mod UnsealableLemmas
pub mod SealedPartLemmas
pub mod SealedDefLemmas
pub mod LoadsBackLemmas
pub mod SealedBackLemmas
pub mod SealedLoadLemmas
pub mod StartLemmas
mod CopiedLoadLemmas
mod KeptTableLemmas
mod SameStartLaws
mod LeastImageLemmas
mod TableExampleLemmas
mod LoadedImageLemmas
pub mod ReadBackLemmas
