mod FilledLemmas
pub mod WindowLemmas
mod ReadLemmas
pub mod ChoiceCaveatLemmas
pub mod PartLemmas
pub mod MemberLemmas
pub mod ProcessorLemmas
pub mod UnreadLemmas
pub mod StartCaveatLemmas
pub mod ImageCaveatLemmas
pub mod CaveatLemmas
