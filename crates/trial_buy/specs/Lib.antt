-- These definitions are this project's own, except where a comment names a public source.
pub mod Windows
pub mod Starting
pub mod Buying
pub mod Examples
