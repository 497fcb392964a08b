-- These definitions are this project's own, except where a comment names a public source.
pub mod CutSessions
pub mod Examples
pub mod Playing
pub mod Recordings
pub mod Scripts
pub mod Sessions
pub mod Slots
pub mod Standing
