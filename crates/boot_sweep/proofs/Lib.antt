pub mod RedoneLemmas
mod PageLemmas
mod DerivedLemmas
pub mod ResultLemmas
mod LineLemmas
mod VerdictLemmas
pub mod KnownLemmas
mod EachCutLemmas
mod StepCutLemmas
pub mod GateLemmas
mod RefusalLemmas
mod ChanceLemmas
mod CountLemmas
mod RefusalLaws
pub mod RefusalCaseLemmas
mod FirmLemmas
mod TextLemmas
mod ToldLemmas
mod ReasonLemmas
mod StrayLemmas
mod PageRoomLemmas
mod LikeBlockLemmas
mod FirmLaws
mod BeforeLineLaws
pub mod SweptLemmas
mod SweepLemmas
pub mod OnlySweepLemmas
