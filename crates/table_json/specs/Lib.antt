-- These definitions are this project's own, except where a comment names a public source.
pub mod Steps
pub mod Members
pub mod Forms
pub mod Families
pub mod Partitions
pub mod Tables
pub mod Seals
pub mod Otps
pub mod Rules
pub mod OtpRules
pub mod Says
pub mod Whole
pub mod Texts
pub mod Examples
