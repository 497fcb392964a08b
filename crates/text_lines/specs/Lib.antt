-- These definitions are this project's own, except where a comment names a public source.
pub mod Faults
pub mod Texts
pub mod Outcomes
pub mod Events
pub mod Examples
