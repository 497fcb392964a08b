-- These definitions are this project's own, except where a comment names a public source.
pub mod ChoiceCaveats
pub mod ChoiceRules
pub mod PartCaveats
pub mod PartRules
pub mod MemberCaveats
pub mod MemberRules
pub mod Doubts
pub mod ProcessorCaveats
pub mod ProcessorRules
pub mod StartCaveats
pub mod StartRules
pub mod ImageCaveats
pub mod ImageRules
pub mod Unread
pub mod Reads
pub mod Caveats
pub mod Rules
