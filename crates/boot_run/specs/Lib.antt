-- These definitions are this project's own, except where a comment names a public source.
pub mod Inputs
pub mod Commands
pub mod Examples
