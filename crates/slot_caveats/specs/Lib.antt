-- These definitions are this project's own, except where a comment names a public source.
pub mod Listing
pub mod OtpCaveats
pub mod OtpRules
pub mod TableCaveats
pub mod TableRules
pub mod SlotCaveats
pub mod SlotRules
pub mod Sought
pub mod Same
pub mod Examples
