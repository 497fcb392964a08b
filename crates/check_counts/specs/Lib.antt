-- These definitions are this project's own, except where a comment names a public source.
pub mod Facts
pub mod CaveatsSeen
pub mod Tallies
pub mod Judging
pub mod Counted
pub mod Rules
pub mod Examples
