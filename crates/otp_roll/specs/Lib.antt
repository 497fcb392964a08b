-- These definitions are this project's own, except where a comment names a public source.
pub mod Rows
pub mod Raises
pub mod Flags
