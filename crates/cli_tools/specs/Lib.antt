-- These definitions are this project's own, except where a comment names a public source.
pub mod Seals
pub mod Tools
pub mod ToolWorks
pub mod SealRules
pub mod ToolRules
pub mod Elfs
