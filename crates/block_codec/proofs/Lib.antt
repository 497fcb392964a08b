pub mod WordLemmas
pub mod ItemLemmas
pub mod FrameLemmas
pub mod BlockLemmas
pub mod ReadLemmas
pub mod ExactLemmas
pub mod FirstFaultLemmas
pub mod WriteLemmas
pub mod AtLemmas
pub mod HighByteLemmas
pub mod PageLemmas
pub mod SearchLemmas
mod KindLemmas
