-- These definitions are this project's own, except where a comment names a public source.
pub mod Events
pub mod Written
pub mod Reading
pub mod Faults
pub mod Scripts
pub mod Judging
pub mod Walking
