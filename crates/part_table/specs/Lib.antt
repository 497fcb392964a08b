-- These definitions are this project's own, except where a comment names a public source.
pub mod Fields
pub mod Partitions
pub mod Families
pub mod Windows
pub mod Links
pub mod Rights
pub mod Contents
pub mod BadItems
pub mod Faults
pub mod TableOf
pub mod Sound
pub mod Written
pub mod Rules
pub mod Examples
pub mod Judged
