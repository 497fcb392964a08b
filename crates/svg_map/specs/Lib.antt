-- These definitions are this project's own, except where a comment names a public source.
pub mod Maps
pub mod Examples
pub mod Places
