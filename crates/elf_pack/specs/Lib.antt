-- These definitions are this project's own, except where a comment names a public source.
pub mod Fields
pub mod Segments
pub mod Judging
pub mod Faults
pub mod Binaries
pub mod Whole
pub mod Examples
