-- These definitions are this project's own, except where a comment names a public source.
pub mod CutMoves
pub mod Doers
pub mod Traces
pub mod Moving
pub mod Checkpoints
pub mod Playing
pub mod Examples
