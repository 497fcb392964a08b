-- These definitions are this project's own, except where a comment names a public source.
pub mod Tears
pub mod Contents
pub mod Examples
pub mod Classes
pub mod Classing
pub mod Answers
pub mod Runs
pub mod Counts
pub mod Found
pub mod Standings
pub mod Judging
pub mod Told
pub mod Replaying
pub mod Beside
