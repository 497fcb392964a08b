-- These definitions are this project's own, except where a comment names a public source.
pub mod Machines
pub mod Boots
pub mod Serving
pub mod Moves
pub mod Standing
pub mod Examples
pub mod Runs
pub mod Ranges
pub mod Remembering
pub mod Plays
