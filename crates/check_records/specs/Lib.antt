-- These definitions are this project's own, except where a comment names a public source.
pub mod Idle
pub mod Shares
pub mod Unfinished
pub mod Records
pub mod Unerased
pub mod Again
pub mod Texts
pub mod Repeats
pub mod Noting
pub mod Seeing
pub mod Erased
pub mod Caveats
pub mod GatedBlocks
pub mod Examples
