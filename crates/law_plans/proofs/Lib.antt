mod HomeSlotLemmas
mod PlanSessionLemmas
mod SealedByteLemmas
mod SealedFirmLemmas
mod PlanFirmLemmas
mod ExampleLemmas
mod FirmExampleLemmas
mod DigestLemmas
mod FirmDigestLemmas
mod FirmImageLemmas
mod FirmFlashLemmas
mod CrowdedDigestLemmas
mod CrowdedImageLemmas
mod ClippedDigestLemmas
mod ClippedImageLemmas
mod ClearedDigestLemmas
mod ClearedImageLemmas
pub mod KeptBlockLemmas
pub mod KeptEntryLemmas
pub mod KeptLemmas
pub mod StepByteLemmas
pub mod PlannedLemmas
pub mod PlanByteLemmas
pub mod PlannedValidLemmas
pub mod SealedLemmas
