-- These definitions are this project's own, except where a comment names a public source.
pub mod Slots
pub mod SlotRules
pub mod Looks
pub mod LookRules
pub mod Reasons
pub mod Rules
pub mod Examples
