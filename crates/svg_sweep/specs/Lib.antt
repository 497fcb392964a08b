-- These definitions are this project's own, except where a comment names a public source.
pub mod Runs
pub mod Charts
pub mod Examples
pub mod Places
