pub mod SoundLoadLemmas
pub mod LongerWindowLemmas
pub mod EntryLaws
pub mod LastLoadLemmas
pub mod AgreementLemmas
pub mod GivenLaws
pub mod LengtheningLemmas
pub mod BlockWordLemmas
pub mod EntryLemmas
mod FeedingLemmas
