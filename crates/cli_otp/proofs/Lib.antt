mod WordLemmas
mod OtpLaws
mod CaveatLemmas
pub mod OtpWorkLemmas
