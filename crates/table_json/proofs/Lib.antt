mod ViewLemmas
mod MemberLemmas
mod PlainLemmas
pub mod RuleLemmas
mod WordFieldLemmas
mod SaysLemmas
mod FewFaultLemmas
mod WholeLemmas
pub mod SpecLemmas
pub mod OtpLemmas
mod TextLemmas
pub mod OtpLaws
