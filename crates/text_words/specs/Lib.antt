-- These definitions are this project's own, except where a comment names a public source.
pub mod Digits
pub mod Writing
pub mod Reading
