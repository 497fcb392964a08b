-- These definitions are this project's own: what the chip may do otherwise is from memory.
pub mod Alternatives
pub mod Examples
