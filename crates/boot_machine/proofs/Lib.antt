mod RoomLemmas
mod BootLemmas
mod BlockLemmas
mod CarriedLemmas
mod EntryLemmas
mod InfoLemmas
mod ReplyLemmas
mod SteadinessLemmas
mod HostingLemmas
mod PlacingLemmas
mod CaseLemmas
mod AdvancingLemmas
mod AnsweredTargetLemmas
mod RamRunLemmas
mod RamStartLemmas
mod MoveLemmas
mod LostLemmas
pub mod MovePlaceLemmas
mod ArmingLemmas
mod MoveTableLemmas
pub mod BeginningLemmas
mod ShownImageLemmas
mod OutcomeLemmas
mod TrialRunLemmas
mod WatchedLemmas
pub mod PlayLemmas
pub mod TornLemmas
